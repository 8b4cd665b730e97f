use Rattle.filter_reports.proofs.TextFiles.{text_has_file}
use Rattle.filter_reports.proofs.TextLines.{file_of_text, text_checked_alike, text_fits}
use Rattle.filter_reports.proofs.laws.translations_fit_a_line.Goals as goal

pub returns-clause-has_file : goal.returns-clause-has_file
returns-clause-has_file c = text_has_file

pub returns-clause-size : goal.returns-clause-size
returns-clause-size c = file_of_text

pub returns-clause-fits : goal.returns-clause-fits
returns-clause-fits c = text_fits

pub returns-clause-checked_alike : goal.returns-clause-checked_alike
returns-clause-checked_alike c = text_checked_alike
