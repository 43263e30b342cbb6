pub mod VenueCalls
