pub mod Lines
pub mod Pcap
