pub mod LinksRead
