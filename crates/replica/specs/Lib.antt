pub mod Store
pub mod Finishing
pub mod View
pub mod Claims
pub mod Holding
pub mod Making
pub mod Paging
pub mod Fitting
