-- form_coding: how one name or value of a form is coded. The crate `form` reads and writes whole forms.
pub mod Coding
pub mod Turns
