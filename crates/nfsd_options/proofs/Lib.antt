mod Rules
mod Taken
mod Numbers
mod Answers
mod Stated
mod Lists
