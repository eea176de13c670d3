pub mod VolumeLaws
