pub mod Turning
pub mod Waiting
pub mod Each
pub mod MailboxSteps
pub mod QueueSteps
pub mod Sent
pub mod Loading
