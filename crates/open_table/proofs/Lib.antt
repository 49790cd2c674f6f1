mod Orders
mod Maps
mod Moving
