mod ReportLemmas
mod TextLemmas
