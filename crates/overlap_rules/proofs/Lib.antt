mod Covering
mod Reaching
mod Triggers
mod UtcMoments
