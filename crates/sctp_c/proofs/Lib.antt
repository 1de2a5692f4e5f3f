mod DriversLeft
mod EndpointEvents
mod Listings
mod LongReasons
mod Refusals
