mod Mapped
mod Numerals
