-- A script whose schedule meets the premises of the headline.
pub mod Hello
