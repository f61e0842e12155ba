-- Bytes and fields: "A field is a one-byte tag, a two-byte length and a body of that length." They are the crate `wire`'s.
pub use Rattle.wire.specs.Bytes.{pick, byte, end_of}
unfoldable pub use Rattle.wire.specs.Bytes.{two, fields_up, fields_in}
