pub mod Listing
pub mod Shapes
pub mod Prospects
pub mod Branches
pub mod Searching
pub mod Outlook
