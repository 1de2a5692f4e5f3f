mod Walks
mod Sets
mod Counted
mod HeldBack
mod NothingAsked
mod Repeats
