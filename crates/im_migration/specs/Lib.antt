pub mod Migration
pub mod Laying
pub mod Resizing
pub mod Copying
