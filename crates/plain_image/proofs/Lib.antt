mod Claims
mod Execution
mod Placement
mod Program
