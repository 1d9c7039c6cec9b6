mod Places
mod Widths
