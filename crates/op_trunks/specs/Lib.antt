pub mod TrunksRead
