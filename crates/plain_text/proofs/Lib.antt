pub mod CallLoop
pub mod TokenLaws
pub mod NumberLaws
pub mod ProgramLaws
