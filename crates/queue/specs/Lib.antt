pub mod Heaps
pub mod Keys
pub mod Orders
pub mod Queues
pub mod Sifting
pub mod Sorting
