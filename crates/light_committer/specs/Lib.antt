pub mod LightAct
