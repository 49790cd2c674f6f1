mod Delivering
mod Having
