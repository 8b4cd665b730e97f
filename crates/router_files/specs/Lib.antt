-- what callers cite
pub mod Again
pub mod Files
pub mod Options
pub mod Places
pub mod Said
pub mod Words
