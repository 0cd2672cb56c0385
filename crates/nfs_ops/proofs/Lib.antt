mod Numbers
pub mod Arms
pub mod Fillings
pub mod Listings
pub mod Founds
pub mod Nexts
pub mod ResultFounds
pub mod ResultNexts
pub mod Sizes
pub mod Written
