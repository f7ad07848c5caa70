pub mod MarkedAreas
