mod Naming
mod Walking
