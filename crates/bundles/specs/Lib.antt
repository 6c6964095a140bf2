-- Bundles of grants, tried before they are made.
pub mod Previews
pub mod Internal
