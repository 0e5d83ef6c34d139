-- Definitions: counting, statements, histories, the ledger, the box and its calls, their rules and laws, the promises.
pub mod Count
pub mod Statement
pub mod Plan
pub mod History
pub mod Book
pub mod Machine
pub mod Search
pub mod Turns
pub mod Calls
pub mod Promises
pub mod Rules
pub mod Effects
pub mod Laws
pub mod Script
