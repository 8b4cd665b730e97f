mod Names
mod Setting
mod Taking
mod Uses
