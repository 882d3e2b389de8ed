pub mod Packets
pub mod PcapFile
pub mod Sent
