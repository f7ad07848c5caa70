pub mod PaidOut
