-- Laws of a header, of the client that a call shows, and of a form.
pub mod Headers
pub mod Callers
pub mod Forms
