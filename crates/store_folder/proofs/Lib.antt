mod Counting
mod Rooms
