pub mod LeastMoment
