pub mod Answers
pub mod Characters
pub mod Keywords
pub mod Lexing
pub mod Numbers
pub mod Punctuators
pub mod Readers
