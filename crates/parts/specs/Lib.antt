pub mod Numbers
pub mod Joints
pub mod Rising
pub mod Foremost
pub mod Delays
pub mod Places
