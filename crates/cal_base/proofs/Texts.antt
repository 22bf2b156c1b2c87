-- Names without ASCII case.
pub mod RaisedTexts
