mod Listing
mod Resolving
