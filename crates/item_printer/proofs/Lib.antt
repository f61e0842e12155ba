pub mod ItemLabels
pub mod PrintedItems
