pub mod StartMoment
