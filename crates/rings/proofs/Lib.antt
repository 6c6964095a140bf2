pub mod ConversionLaws
