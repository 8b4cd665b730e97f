-- How data stands in a page. (HTML's rules for the element `script`; RFC 8259 on escapes in strings. That a page is made so is this project's
-- own choice.)
use Rattle.std.specs.Prelude.{◌≢◌, ℕ, ◌==◌, List, [], ◌∷◌, ◌++◌, codes, flat_map, if◌then◌else◌}
use Rattle.serde_json.specs.Data.{Data}
use Rattle.serde_json.specs.Written.{compact_text}
use Rattle.domain_reports.specs.Reports.{domain_data, text_data}
use Rattle.domain_reports.specs.Views.{DomainView}
use Rattle.domain_reports.specs.declared.page.Shell.{Shell}

-- An opening bracket, which JSON has within strings alone, is written as a number. So no byte of the data begins an element or ends one.
abbrev pub unbracketed_byte : ℕ → List ℕ
unbracketed_byte byte = if byte == 60 then codes "\\u003c" else byte ∷ []

abbrev pub unbracketed : List ℕ → List ℕ
unbracketed bytes = flat_map unbracketed_byte bytes

-- a byte that begins no element and ends none
abbrev pub IsNoBracket : ℕ → Type 0
IsNoBracket byte = byte ≢ 60

-- an element of this name whose content is data, which no browser runs
abbrev pub before_data : List ℕ → List ℕ
before_data name = codes "<script type=\"application/json\" id=\"" ++ name ++ codes "\">"

unfoldable pub behind_data : List ℕ
behind_data = codes "</script>" ++ 10 ∷ []

abbrev pub data_element : List ℕ → Data → List ℕ
data_element name value = before_data name ++ unbracketed (compact_text value) ++ behind_data

-- the page of a domain whose script has this name: what is the same in each page, and two elements with data
abbrev pub page_text : Shell → List ℕ → DomainView → List ℕ
page_text shell name domain = shell.before.now ++ data_element (codes "file") (text_data name)
    ++ data_element (codes "domain") (domain_data domain) ++ shell.behind.now
