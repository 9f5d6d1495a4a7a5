pub mod Contents
pub mod Earlier
pub mod FileTokens
pub mod Nesting
pub mod Texts
