pub mod LayerNumbers
