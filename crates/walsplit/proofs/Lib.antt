mod Listed
mod Splits
mod Within
