-- authorization_location: the room that the parts of a location take.
pub mod Rooms
