mod Counting
mod Growing
mod Rows
