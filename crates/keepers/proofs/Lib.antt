pub mod KeptNeeds
