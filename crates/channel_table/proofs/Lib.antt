mod Free
mod Keeping
