pub mod Words
pub mod Pieces
pub mod Lexer
pub mod Rules
pub mod Tokens
pub mod Spelled
