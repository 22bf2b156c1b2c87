pub mod TagSteps
pub mod CredentialSteps
pub mod ContentSteps
pub mod AskedLaws
