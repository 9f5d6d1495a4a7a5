mod Codes
mod Counts
mod Planned
mod PointerCodes
