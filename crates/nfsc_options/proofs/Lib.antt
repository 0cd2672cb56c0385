mod Plain
mod Rules
mod Numbers
mod Answers
mod Taken
