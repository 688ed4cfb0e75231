pub mod NewTags
