pub mod WholeText
