pub mod SoundRun
