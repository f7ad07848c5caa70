pub mod PayOut
pub mod Payable
